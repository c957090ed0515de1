-- Rows that show the definitions themselves: the worked cases of section 16, and edges of most other sections.
pub mod Rows
pub mod BenchRows
pub mod EdgeRows
pub mod BytesRows
pub mod LogRows
pub mod ListingRows
pub mod RequestRows
pub mod ChainRows
pub mod CarryRows
pub mod NeedRows
pub mod Cases
