use Rattle.ca_cmd.specs.File.{lines_of}
use Rattle.ca_cmd.proofs.Files.{lines_same, one_line, one_place, one_reason, not_both}
use Rattle.ca_cmd.proofs.laws.file_laws.Goals as goal

pub returns : goal.returns
returns c = record {
  one_list = λ file. lines_same 1 (lines_of file);
  one_line = one_line;
  one_place = one_place;
  one_reason = one_reason;
  never_both = not_both;
}
