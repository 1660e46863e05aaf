pub mod Form
pub mod PricePlaces
