mod Cutting
mod Meeting
