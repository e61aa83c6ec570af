mod Handed
mod Manifests
mod Migrated
