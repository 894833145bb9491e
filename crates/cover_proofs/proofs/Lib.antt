pub mod ClauseRules
pub mod CoverLines
pub mod MemberLines
pub mod NormLines
