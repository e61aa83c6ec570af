mod CommitLemmas
mod DigitLemmas
mod NameLemmas
mod TextLemmas
