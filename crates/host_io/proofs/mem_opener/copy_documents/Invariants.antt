use Rattle.std.proofs.Common.{◌≡◌, take}
use Rattle.host_io.proofs.mem_opener.copy_documents.Given as goal

abbrev pub invariant-loop-document : goal.invariant-loop-document
invariant-loop-document l = l.copies ≡ take l.document-index l.documents
