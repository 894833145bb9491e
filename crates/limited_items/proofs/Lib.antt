pub mod AmountFacts
pub mod PlaceFacts
pub mod PremiseFacts
pub mod PrintedFacts
pub mod RoomFacts
