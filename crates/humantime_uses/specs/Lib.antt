pub mod CaretColumns
pub mod SpanItems
