use Rattle.go_parse.proofs.SourceLemmas.{invalid, stopped}
use Rattle.go_parse.proofs.source.read_file.Goals as goal

pub returns-in-Err-NotUtf8 : goal.returns-in-Err-NotUtf8
returns-in-Err-NotUtf8 c = record {
  read = tt;
  refused = λ n. invalid c.args.text.now c.scan.result c.in-Err-NotUtf8.field-0 c.in-Err-NotUtf8.offset _ c.in-Err-NotUtf8.is c.in-Err-NotUtf8.field-0-is c.in-Err-NotUtf8.offset-is c.scan.ensures.refused c.scan.ensures.none;
}

pub returns-in-Err-BadToken : goal.returns-in-Err-BadToken
returns-in-Err-BadToken c = record {
  read = tt;
  refused = λ n. stopped c.args.text.now c.scan.result c.in-Err-BadToken.field-0 c.in-Err-BadToken.offset _ c.in-Err-BadToken.is c.in-Err-BadToken.field-0-is c.in-Err-BadToken.offset-is c.scan.ensures.refused c.scan.ensures.none;
}
