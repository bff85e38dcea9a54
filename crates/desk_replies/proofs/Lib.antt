pub mod PutAnswers
