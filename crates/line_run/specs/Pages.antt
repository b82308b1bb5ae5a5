-- The pages that are printed of the program itself.
use Rattle.std.specs.Prelude.{ℕ, List, ◌++◌, codes}
use Rattle.line_words.specs.declared.job.PageJob.{PageJob}
use Rattle.line_words.specs.declared.job.PageJob.TheVariants.{Help, Version}

-- the name of the program and its version
abbrev pub version_text : List ℕ
version_text = codes "line 0.1.0\n"

-- how the program is called, and what its balance and its searches at a cycle time or for given stations give
abbrev pub planning_text : List ℕ
planning_text =
    codes "line COMMAND NAMES KEY=VALUE ..    balances of assembly lines, with proof\n"
    ++ codes "balance FILE    a balance at once, a bound on its stations, the idle time\n"
    ++ codes "    cycle=C (the file's)  line=straight|u (straight)  apart=PAIRS (none)\n"
    ++ codes "    line balance jackson.in2 cycle=10\n"
    ++ codes "solve FILE    a balance of the fewest stations, and the proof that it is\n"
    ++ codes "    cycle=C (the file's)  line=straight|u (straight)  helpers=0..64 (4)\n"
    ++ codes "    units=1..3000000 (in turns)  cert=OUT (none)  apart=PAIRS (none)\n"
    ++ codes "    warm=CERT (none)  seek=0..3000000 (in turns)  bound=plain|pairs (pairs)\n"
    ++ codes "    line solve jackson.in2 cycle=10 cert=jackson.cert\n"
    ++ codes "cycle FILE stations=1..1024    the least cycle time, and the proof\n"
    ++ codes "    line=straight|u (straight)  helpers=0..64 (4)  units=1..1000000 (1000000)\n"
    ++ codes "    cert=OUT (none)  seek=0..3000000 (0)  bound=plain|pairs (pairs)\n"
    ++ codes "    line cycle jackson.in2 stations=5\n"

-- what the least product and the tests of proofs give
abbrev pub proof_text : List ℕ
proof_text =
    codes "effic FILE least=1..1024 most=1..1024    the least stations times cycle time\n"
    ++ codes "    line=straight|u (straight)  helpers=0..64 (4)  units=1..1000000 (1000000)\n"
    ++ codes "    cert=OUT (none)  seek=0..3000000 (0)  bound=plain|pairs (pairs)\n"
    ++ codes "    line effic jackson.in2 least=3 most=6 cert=jackson.product\n"
    ++ codes "check FILE CERT    whether a proof holds, and what it shows then\n"
    ++ codes "    steps=1..20000000 (20000000)  apart=PAIRS (none)\n"
    ++ codes "    line check jackson.in2 jackson.cert\n"
    ++ codes "effic-check FILE CERT steps=1..20000000 (20000000)    the same of effic\n"
    ++ codes "    line effic-check jackson.in2 jackson.product\n"

-- what the commands for mixes of models give
abbrev pub mix_text : List ℕ
mix_text =
    codes "combine MIX OUT    the combined instance of a mix of models\n"
    ++ codes "    line combine models.csv all.in2\n"
    ++ codes "utility MIX CERT SEQ interval=I length=L    utility work of a sequence\n"
    ++ codes "    line utility models.csv all.cert day.txt interval=7 length=8\n"
    ++ codes "timeline MIX CERT SEQ interval=I length=L    the same, unit by unit, as CSV\n"
    ++ codes "    line timeline models.csv all.cert day.txt interval=7 length=8\n"
    ++ codes "timeline-draw MIX CERT SEQ OUT interval=I length=L    the same as a picture\n"
    ++ codes "    line timeline-draw models.csv all.cert day.txt day.svg interval=7 length=8\n"
    ++ codes "sequence MIX CERT interval=I length=L    the order of least utility work\n"
    ++ codes "    units=1..1000000 (1000000)  seek=0..3000000 (0)  out=OUT (none)\n"
    ++ codes "    line sequence models.csv all.cert interval=7 length=8 out=day.proof\n"
    ++ codes "sequence-check MIX CERT SEQ interval=I length=L    whether that proof holds\n"
    ++ codes "    steps=1..20000000 (20000000)\n"
    ++ codes "    line sequence-check models.csv all.cert day.proof interval=7 length=8\n"

-- what the other commands give
abbrev pub other_text : List ℕ
other_text =
    codes "convert FILE OUT to=in2|alb|csv|cert cycle=C apart=PAIRS    in that form\n"
    ++ codes "    line convert jackson.in2 jackson.csv to=csv\n"
    ++ codes "try seed=S tasks=1..1024    a generated instance, solved and checked\n"
    ++ codes "    cycle=C (200)  line=straight|u (straight)  units=1..3000000 (1000000)\n"
    ++ codes "    line try seed=1 tasks=50\n"
    ++ codes "draw FILE CERT OUT apart=PAIRS    the balance of a proof as a picture, in SVG\n"
    ++ codes "    line draw jackson.in2 jackson.cert jackson.svg\n"
    ++ codes "plan FILE CERT apart=PAIRS    the same as a sheet: when each task is done\n"
    ++ codes "    line plan lamp.csv lamp.cert\n"
    ++ codes "--help, --version    this page, and the version\n\n"
    ++ codes "FILE has a line as CSV, IN2 or ALB, PAIRS lines i,j of tasks that may share no\n"
    ++ codes "station and then -1,-1. Times are whole numbers of one time unit.\n"

-- the page with every command
abbrev pub help_text : List ℕ
help_text = ((planning_text ++ proof_text) ++ mix_text) ++ other_text

-- the text of each page
abbrev pub page_text : PageJob → List ℕ
page_text Help = help_text
page_text Version = version_text
