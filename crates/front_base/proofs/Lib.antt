mod CivilLemmas
mod NumberLemmas
mod Padding
mod TextLemmas
mod EndsLemmas
mod FormLemmas
mod VersionLemmas
mod YearLemmas
