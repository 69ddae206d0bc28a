mod Asking
mod LogBytes
mod PutOver
mod Serving
