use Rattle.csv.specs.Records.{fields_of}
use Rattle.strategy_file.proofs.CsvRead.{taken}
use Rattle.strategy_file.proofs.csv_read.take_record.Goals as goal

pub returns-clause-reading : goal.returns-clause-reading
returns-clause-reading c =
    let ok = c.in-Ok.ensures in
    (taken c.args.reader.now c.read_byte_record.new.self c.in-Ok.found (fields_of c.read_byte_record.new.row) c.requires
    (ok.ready c.requires.untrimmed) ok.flexible (ok.reads c.requires.untrimmed c.requires.ready)).reading

pub returns-clause-first : goal.returns-clause-first
returns-clause-first c =
    let ok = c.in-Ok.ensures in
    (taken c.args.reader.now c.read_byte_record.new.self c.in-Ok.found (fields_of c.read_byte_record.new.row) c.requires
    (ok.ready c.requires.untrimmed) ok.flexible (ok.reads c.requires.untrimmed c.requires.ready)).first

pub returns-clause-shorter : goal.returns-clause-shorter
returns-clause-shorter c =
    let ok = c.in-Ok.ensures in
    (taken c.args.reader.now c.read_byte_record.new.self c.in-Ok.found (fields_of c.read_byte_record.new.row) c.requires
    (ok.ready c.requires.untrimmed) ok.flexible (ok.reads c.requires.untrimmed c.requires.ready)).shorter
