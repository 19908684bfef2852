pub mod FormingTerms
