-- The specs of the Failing and the Passing lanes of points.
pub mod PointRows
pub mod PlaceRows
