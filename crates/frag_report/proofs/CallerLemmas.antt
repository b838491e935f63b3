-- What other crates' proofs may cite, re-exported: the lines of `walk`, one for each class with live objects, written one after the other, or cut by a failed
-- sink; and which classes there are. Declares nothing.
pub use Rattle.frag_report.proofs.Classes.{class_cut, class_past, class_put, class_there, lines_cut, lines_then, one_class_more}
