pub mod FileDisk
pub mod Window
