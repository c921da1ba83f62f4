pub mod KindListLemmas
pub mod MapperLemmas
pub mod SetLemmas
pub mod SetWords
pub mod SoundSegments
pub mod SpanLemmas
