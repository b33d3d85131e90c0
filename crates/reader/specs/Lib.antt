-- Document 01, "Lines", as far as it speaks of bytes. Bytes are numbers, a text is a list of them, places count from 0.
pub mod Ascii
pub mod Bytes
pub mod FirstBad
