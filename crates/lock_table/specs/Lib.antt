pub mod AnswerLaws
pub mod Answers
pub mod Asked
pub mod Graph
pub mod Kept
pub mod Laws
pub mod Stands
