pub mod AtomicSteps
pub mod AtomicAlike
pub mod OrderSteps
pub mod OrderAlike
pub mod SentStamps
pub mod EgroupSteps
pub mod Memberships
pub mod EgroupAlike
