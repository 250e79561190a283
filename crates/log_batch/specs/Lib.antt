pub mod Newest
pub mod Put
pub mod PutLaws
pub mod NewestLaws
pub mod Picks
pub mod Dirty
