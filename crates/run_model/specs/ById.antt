-- The bytes of objects by the ids of a session, re-exported. Declares nothing.
pub use Rattle.id_table.specs.ById.{bytes_of, objects_by_id}
