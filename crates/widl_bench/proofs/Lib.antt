mod NewObjects
mod ShortTexts
