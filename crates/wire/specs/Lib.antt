pub mod Within
pub mod CaseBytes
pub mod CaseParts
