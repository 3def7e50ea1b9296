pub mod Lefts
