mod Beside
mod GoingOn
