-- The spec modules: statuses, bodies and answers of requests.
pub mod Statuses
pub mod Methods
pub mod Replies
pub mod Bodies
pub mod BodyBytes
pub mod Answers
pub mod Responses
