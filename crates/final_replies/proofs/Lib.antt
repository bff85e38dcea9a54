pub mod SentParts
