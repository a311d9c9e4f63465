-- Lemmas of uses by their form.
pub mod Work
pub mod ToldFormulas
pub mod ToldUses
pub mod Alone
