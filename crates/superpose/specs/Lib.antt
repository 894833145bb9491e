pub mod Absent
pub mod Drafts
pub mod Inferences
pub mod Made
pub mod MostGeneral
pub mod Used
pub mod code
