-- A session of the code, whose statements contracts see as trees.
use Rattle.std.specs.Prelude.{map}
use Rattle.sessions.specs.Sessions.{SessionView}

abbrev pub seen : {T U : Type 0} → (T → U) → SessionView T → SessionView U
seen tree x = record {
  phase = x.phase;
  level = x.level;
  looked = x.looked;
  settings = x.settings;
  saved = x.saved;
  kind = x.kind;
  alone = x.alone;
  in_block = x.in_block;
  rest = map tree x.rest;
  broken = x.broken;
  told = x.told;
  fault = x.fault;
}
