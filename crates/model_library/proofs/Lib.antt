pub mod Words
pub mod Growing
pub mod Decimals
pub mod CallForms
pub mod QuestionForms
pub mod Limited
