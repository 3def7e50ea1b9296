pub mod Contents
pub mod Answering
