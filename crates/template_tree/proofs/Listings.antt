-- Lines, and the bytes of a listing.
-- what `put_listing` puts for each line
pub mod PutLines
-- the lines of a listing are its bytes, split at each byte 10
pub mod PrintableLines
-- small cases of lines, the listing and stops, which the definitions give by computing; no clause needs them
pub mod ListingExamples
