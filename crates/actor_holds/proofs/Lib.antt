mod Noted
mod Opens
mod Made
mod Happenings
mod Once
mod Counted
