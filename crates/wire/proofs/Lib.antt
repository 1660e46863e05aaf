pub mod HeadPlaces
pub mod WholeCase
