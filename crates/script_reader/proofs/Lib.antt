pub mod AnswerLemmas
pub mod ExactAnswers
pub mod FieldLemmas
pub mod FirstLine
pub mod FirstNumber
pub mod ItemLemmas
pub mod Prefix
pub mod Searches
pub mod SilentLines
pub mod Words
mod TextLemmas
mod TokenLemmas
mod ReadBack
mod GeneratedLemmas
pub mod CallerLemmas
