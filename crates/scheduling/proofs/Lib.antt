mod Needing
mod Making
mod Answering
