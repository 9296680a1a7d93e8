-- What the proof of the loop uses.
mod Serving
