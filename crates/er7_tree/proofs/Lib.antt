mod Rows
mod ReadingRows
pub mod Cutting
pub mod Declaring
pub mod Spanning
pub mod Segmenting
pub mod Messages
pub mod Printing
pub mod Lacking
pub mod Placing
pub mod Escaping
pub mod RoundTrip
pub mod Distinct
pub mod Putting
pub mod PathReading
pub mod EditedPieces
pub mod EditedFields
pub mod EditedLists
pub mod EditedSegments
pub mod EditedMessages
pub mod Editing
pub mod EditLaws
pub mod HeaderName
