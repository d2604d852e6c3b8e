mod Coding
mod SampleObjects
