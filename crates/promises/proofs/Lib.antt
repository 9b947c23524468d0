-- Points and codes, and a cut in both.
pub mod Bridge
pub mod Clip
-- A session that is right for a set of levels; what a whole list of cuts makes of it.
pub mod Right
pub mod Fold
-- The demands.
pub mod Changed
pub mod Demand1
pub mod Demand2
pub mod Demand3
pub mod After
pub mod Sheets
-- The schedules of a session's present ranges: looser cuts, schedules out and in.
pub mod Reached
pub mod LooserCuts
pub mod Inspected
pub mod Written
pub mod NoneAtCut
pub mod SessionBounds
-- Files: round trips, and what is printed.
pub mod RoundTrip
pub mod CutAll
pub mod Printed
-- Over C.
pub mod Storable
pub mod Bytes
pub mod Points
pub mod Demands
pub mod SheetsInBytes
pub mod Schedules
pub mod Files
-- The tables.
pub mod Starred
-- All of it.
pub mod Promised
