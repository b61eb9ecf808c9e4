pub mod AnswerLemmas
pub mod PieceLemmas
pub mod RunFacts
