mod Entered
mod Places
mod Finding
mod Gains
pub mod Lists
pub mod SortLists
mod Reversed
pub mod Induction
pub mod KnownSorts
pub mod InstanceFacts
pub mod LiftingLaws
pub mod LiftFacts
pub mod MoreReaches
pub mod Moved
pub mod OccursFacts
pub mod PlaceReach
pub mod Reaches
pub mod ScopeFacts
pub mod Scoped
pub mod SizeFacts
pub mod SortLawsFacts
pub mod SortsFacts
pub mod Trees
pub mod Unused
pub mod VariablesFacts
pub mod Walks
