mod Crashes
mod Numbers
