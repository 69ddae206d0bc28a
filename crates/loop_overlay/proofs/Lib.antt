mod WriteOver
mod LogCalls
mod OverlayImages
