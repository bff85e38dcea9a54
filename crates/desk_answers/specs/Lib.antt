-- What a request is answered, and what the seat over which it is answered does.
pub mod Routes
pub mod Resources
pub mod SignBodies
pub mod RouteAnswers
pub mod BookAnswers
pub mod Seats
pub mod DeskSeats
