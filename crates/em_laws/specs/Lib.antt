pub mod Minted
pub mod Unchanged
pub mod Broken
pub mod AllLaws
