pub mod EntryForm
pub mod EntryFormat
pub mod Laws
pub mod RecordForm
pub mod RecordFormat
pub mod RecordLaws
pub mod Spelling
pub mod Spelled
