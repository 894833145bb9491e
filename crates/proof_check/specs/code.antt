-- What private contracts alone say of the code. Nothing public rests on this.
pub mod Chains
pub mod Concludes
pub mod Findings
pub mod Hypotheses
pub mod JointInstance
pub mod Marking
pub mod Reaching
