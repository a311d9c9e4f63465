use Rattle.std.proofs.Common.{◌≡◌, drop}
use Rattle.host_io.specs.Memory.{document_in}
use Rattle.host_io.proofs.mem_cabinet.find_document.Given as goal

abbrev pub invariant-loop-document : goal.invariant-loop-document
invariant-loop-document l = document_in (drop l.document-index l.documents) l.name ≡ document_in l.documents l.name
