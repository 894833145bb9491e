pub mod NeedFacts
pub mod PlaceFacts
pub mod PlanFacts
