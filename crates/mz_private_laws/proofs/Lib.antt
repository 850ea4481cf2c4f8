pub mod OnePrivate
