-- Document 01, "Lines", as far as it speaks of words: what parts them, and what stands at a place of some bytes.
pub mod Words
