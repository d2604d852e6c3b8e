mod Found
mod Looked
mod Prepared
mod SampleObjects
mod Secured
mod Stale
