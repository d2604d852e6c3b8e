mod Alike
mod Opened
mod SampleObjects
mod Taking
